mod Texts
mod Placed
mod Numbered
mod Shown
mod Whole
mod Rising
