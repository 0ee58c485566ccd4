mod TextLemmas
mod TreeLemmas
mod FormLemmas
