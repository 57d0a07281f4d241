mod FromFirst
mod Sign
mod Whole
mod Edges
