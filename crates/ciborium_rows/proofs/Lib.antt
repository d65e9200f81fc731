mod FewItems
