pub mod FigureLemmas
pub mod GroupsRead
pub mod ItemLemmas
pub mod ItemsRead
pub mod LineLemmas
pub mod OneLine
pub mod RangeLemmas
pub mod WordsRead
