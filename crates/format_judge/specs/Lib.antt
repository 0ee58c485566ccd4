pub mod FormatsFound
