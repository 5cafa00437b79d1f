-- The forms of the values that are written, each told by how its text looks.
use Rattle.std.specs.Prelude.{ℕ, List}
use Rattle.serde_json.specs.Data.{Data, number, unsigned, array, object, Items, no_items, item, no_members, member}

-- {"NAME":value}
abbrev pub named : List ℕ → Data → Data
named name value = object (member name value no_members)

-- {"NAME":[..]}
abbrev pub listed : List ℕ → Items → Data
listed name items = named name (array items)

-- n
abbrev pub whole : ℕ → Data
whole n = number (unsigned n)

-- {"NAME":n}
abbrev pub with_number : List ℕ → ℕ → Data
with_number name n = named name (whole n)

-- {"NAME":[n,m]}
abbrev pub with_two : List ℕ → ℕ → ℕ → Data
with_two name n m = listed name (item (whole n) (item (whole m) no_items))

-- {"NAME":[n,A]}
abbrev pub with_number_and : List ℕ → ℕ → Data → Data
with_number_and name n a = listed name (item (whole n) (item a no_items))

-- {"NAME":[A,B]}
abbrev pub with_both : List ℕ → Data → Data → Data
with_both name a b = listed name (item a (item b no_items))
