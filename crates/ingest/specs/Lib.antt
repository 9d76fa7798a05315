pub mod Ingest
