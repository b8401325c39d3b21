pub mod ActionPlaces
