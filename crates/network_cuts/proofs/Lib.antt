mod SinkLaws
mod SumLaws
mod SettleLaws
mod SearchLaws
