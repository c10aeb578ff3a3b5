pub mod alike
pub mod diagrams
pub mod labelled
pub mod rebuilt
pub mod valuations
