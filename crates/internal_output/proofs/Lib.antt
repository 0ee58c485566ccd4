pub mod TextParts
pub mod TextForms
pub mod FileLaws
pub mod ItemLaws
pub mod PutLaws
pub mod CallLaws
