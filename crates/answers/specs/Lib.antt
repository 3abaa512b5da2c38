pub mod Numbers
pub mod NumberLaws
pub mod PairLaws
pub mod KindLaws
