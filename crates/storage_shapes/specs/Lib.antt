pub mod ShapeArea
pub mod StoreTable
