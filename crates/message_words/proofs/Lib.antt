pub mod Alike
pub mod Apps
pub mod Bitmap
pub mod Parts
pub mod Replies
pub mod Samples
