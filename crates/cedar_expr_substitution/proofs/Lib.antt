mod InTurn
mod Placed
mod Typed
mod Walked
mod Gathered
mod Recorded
mod Stepping
