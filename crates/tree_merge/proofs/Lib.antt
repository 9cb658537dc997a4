mod Weights
mod Frames
mod Twos
mod Rights
mod Steps
mod Tops
