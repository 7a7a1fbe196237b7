pub mod WriterLaws
