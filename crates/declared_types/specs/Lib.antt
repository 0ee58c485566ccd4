pub mod TypeTables
