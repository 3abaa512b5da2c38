pub mod FurtherLaws
