mod Smaller
mod Written
mod Shown
mod Parted
