-- What is true while the items of an array are read until one is refused.
use Rattle.std.proofs.Common.{◌≡◌, ℕ, suc, ◌+◌, ◌<◌, List, [], ◌∷◌, length, get_or, drop, Err, refl, sym, subst, ap}
use Rattle.std.proofs.Common.{◌∙◌, arith}
use Rattle.std.proofs.lemmas.List.{drop_more}
use Rattle.serde_json.specs.View.{view, items_view}
use Rattle.serde_json.specs.declared.value.Value.{Value}
use Rattle.serde_json.specs.Data.{Data, Items, no_items, item}
use Rattle.sched_plan_json.specs.Reading.{Reading, found_value}
use Rattle.sched_plan_json.specs.declared.faults.ReadFault.{ReadFault}
use Rattle.sched_pool_json.specs.Each.{each}
use Rattle.sched_pool_check.specs.JobFaults.{IsRead, FirstItem}
use Rattle.sched_plan_check.proofs.Leads.{found_first}

-- so many items are read: what is found of the rest is found of all
pub record IsPast {A : Type 0} (reads : Data → Reading A) (all rest : Items) (i : ℕ) : Type 0 where
  pub first : (fault : ReadFault) (j : ℕ) (d : Data) → FirstItem reads fault rest j d
      → FirstItem reads fault all (i + j) d
  pub none : IsRead (each reads rest) → IsRead (each reads all)

pub past_none : {A : Type 0} (reads : Data → Reading A) (all : Items) → IsPast reads all all 0
past_none reads all = record {
  first = λ fault j d h. subst (λ n. FirstItem reads fault all n d) (omega arith) h;
  none = λ h. h;
}

each_read : {A : Type 0} (reads : Data → Reading A) (d : Data) (rest : Items) → IsRead (reads d)
    → IsRead (each reads rest) → IsRead (each reads (item d rest))
each_read reads d rest (x, is) (xs, are) =
    (x ∷ xs, found_first (reads d) _ x is ∙ found_first (each reads rest) (λ ys. found_value (x ∷ ys)) xs are)

pub past_item : {A : Type 0} (reads : Data → Reading A) (all rest : Items) (d : Data) (i : ℕ)
    → IsPast reads all (item d rest) i → IsRead (reads d) →
    IsPast reads all rest (i + 1)
past_item reads all rest d i past read = record {
  first = λ fault j e h.
      subst (λ n. FirstItem reads fault all n e) (omega arith) (past.first fault (suc j) e (read, h));
  none = λ h. past.none (each_read reads d rest read h);
}

-- the item that comes next is refused
pub past_refused : {A : Type 0} (reads : Data → Reading A) (all rest : Items) (d : Data) (i : ℕ) (fault : ReadFault)
    → IsPast reads all (item d rest) i →
    (reads d).answer ≡ Err fault → FirstItem reads fault all i d
past_refused reads all rest d i fault past is =
    subst (λ n. FirstItem reads fault all n d) (omega arith) (past.first fault 0 d (refl, is))

-- no item is left
pub past_all : {A : Type 0} (reads : Data → Reading A) (all : Items) (i : ℕ) → IsPast reads all no_items i
    → IsRead (each reads all)
past_all reads all i past = past.none ([], refl)

-- the next of the values that are left
pub next_of : {A : Type 0} (reads : Data → Reading A) (all : Items) (values : List Value) (n : ℕ) (v : Value)
    → n < length values → v ≡ get_or values n v →
    IsPast reads all (items_view (drop n values)) n
    → IsPast reads all (item (view v) (items_view (drop (n + 1) values))) n
next_of reads all values n v more is past =
    let at : drop n values ≡ v ∷ drop (n + 1) values =
    drop_more values n v more ∙ ap (λ x. x ∷ drop (n + 1) values) (sym is) in
    subst (λ rest. IsPast reads all (items_view rest) n) at past
