-- What specs/ states is proved in Steps (Six), Split (Halves) and Clock (Turns); Samples has cases by computation.
pub mod Steps
pub mod Split
pub mod Clock
pub mod Samples
