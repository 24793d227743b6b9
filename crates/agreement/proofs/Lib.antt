mod Best
mod Slots
mod Numbers
