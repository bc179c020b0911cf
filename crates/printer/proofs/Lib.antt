mod Buffer
mod Digits
mod Examples
