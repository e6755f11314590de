mod Firsts
mod Keyed
mod Bound
mod Gathered
mod Conditions
mod Seen
