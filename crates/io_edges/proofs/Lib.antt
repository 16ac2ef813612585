pub mod Known
mod Parts
mod PieceEnds
