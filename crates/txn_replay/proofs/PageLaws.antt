-- Lemmas on the pages that cards and stores take and give back.
pub mod StorePagesBack
pub mod CardPagesBack
