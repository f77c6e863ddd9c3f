pub mod Origins
pub mod Binding
