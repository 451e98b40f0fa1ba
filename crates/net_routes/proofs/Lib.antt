pub mod RuledWords
