mod CountLemmas
mod WordLemmas
