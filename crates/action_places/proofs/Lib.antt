pub mod ActionPlaceLaws
