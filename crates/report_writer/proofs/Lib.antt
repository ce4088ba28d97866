mod Lines
mod SectionLemmas
