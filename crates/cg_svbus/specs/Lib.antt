pub mod TopViewed
