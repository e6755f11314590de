mod EqualTypes
mod Going
mod SameTypes
mod TypeLevels
mod EqualNames
mod CoreLevels
mod EqualCores
mod Compared
