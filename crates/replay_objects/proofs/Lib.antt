mod ObjectLaws
mod PairLaws
