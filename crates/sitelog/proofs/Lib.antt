mod Places
mod Digits
mod Hexes
