-- What the program prints of storms.
pub mod StormPrinting
