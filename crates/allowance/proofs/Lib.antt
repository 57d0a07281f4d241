mod Patterns
mod Half
mod Ranges
mod Fields
mod Clamp
mod Edges
