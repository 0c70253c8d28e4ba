pub mod Clean
pub mod Going
pub mod Numbers
pub mod Passing
pub mod Pieces
pub mod Spans
pub mod Tales
pub mod Writing
