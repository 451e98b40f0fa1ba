pub mod RuledBy
