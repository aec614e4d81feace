pub mod PageLemmas
