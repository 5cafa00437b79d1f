-- What contracts see of a machine and of its drivers, and the tasks that it may stand for.
pub mod Aims
pub mod Retrying
pub mod Next
pub mod Laws
pub mod Drives
pub mod Machine
pub mod Runner
pub mod Again
pub mod Of
