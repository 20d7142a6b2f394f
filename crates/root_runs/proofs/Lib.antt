mod FirstPlaces
mod Slashes
