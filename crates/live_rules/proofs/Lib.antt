pub mod Numbers
pub mod Valid
pub mod Placed
pub mod Filled
pub mod Unmoved
pub mod Grown
