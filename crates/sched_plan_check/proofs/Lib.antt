-- Where the plans of a node are, the first fault among them, and what leads on from it.
pub mod Tables
pub mod Leads
pub mod Nexts
