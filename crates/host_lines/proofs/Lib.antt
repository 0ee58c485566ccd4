mod LineLaws
mod BackLaws
