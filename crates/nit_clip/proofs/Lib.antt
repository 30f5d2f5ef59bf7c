pub mod ClipListLemmas
pub mod ClipLineLaws
pub mod WholeClipLemmas
pub mod ClipFits
pub mod Basics
pub mod ForCallers
pub mod Lemmas
pub mod ClipTextLemmas
