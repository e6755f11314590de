mod AlongData
mod Comparing
mod EqualLeaves
mod Feeding
mod LevelData
mod Levels
mod SameTrees
mod Smaller
