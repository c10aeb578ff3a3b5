mod Bytes
mod DecimalDigits
mod MadeTexts
mod Rings
