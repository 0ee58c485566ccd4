pub use Rattle.plain_forms.proofs.lowering_laws
