pub mod HybridLaws
