pub mod EveryForm
