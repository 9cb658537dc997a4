mod Beside
mod Meanings
mod Boundary
mod Reach
mod Printed
mod Made
