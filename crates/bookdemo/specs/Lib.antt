pub mod Trial
