pub mod Hall
