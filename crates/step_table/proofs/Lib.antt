mod Inwards
mod FirstPlaces
