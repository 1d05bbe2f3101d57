pub mod ExpressionsLemmas
