pub mod GranuleWords
pub mod ImageLemmas
pub mod RequesterBounds
pub mod ScriptExamples
pub mod TextExamples
pub mod WriterBytesLemmas
