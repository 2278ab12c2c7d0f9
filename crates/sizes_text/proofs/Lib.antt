pub mod SizeLaws
pub mod SizeTexts
