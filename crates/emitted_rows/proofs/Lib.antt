mod ExampleLaws
mod KeptExampleLaws
